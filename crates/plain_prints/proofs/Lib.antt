mod Taking
mod Piecing
mod Reading
mod Telling
