pub mod Parts
pub mod WordSteps
pub mod Numbers
pub mod Paths
pub mod LineSteps
pub mod Telling
pub mod ValueTexts
pub mod FrameSteps
