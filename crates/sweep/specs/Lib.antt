-- What the functions of `sweep` mean.
pub mod Sweep
pub mod Recorder
