-- What the frames of activities show, as a host reads them.
pub mod Reading
pub mod Showing
