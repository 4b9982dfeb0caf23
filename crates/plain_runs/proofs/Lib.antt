pub mod Located
pub mod Pointed
pub mod Keeping
pub mod Taking
pub mod Working
pub mod Ready
pub mod Popping
