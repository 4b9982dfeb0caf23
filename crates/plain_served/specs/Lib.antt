-- What service 1 does where a lookup finds a method.
pub mod Serving
