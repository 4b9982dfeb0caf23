-- Services that end activations whose contexts have marks.
pub mod Frames
pub mod Services
pub mod Failing
pub mod Returning
pub mod Walking
