-- The laws under the functions of `walk`, what a caller's loop cites (StepLaws, TourLaws, StartLaws), and its theorems (EnteredOnce, NeverStays).
mod Indices
pub mod StepLaws
pub mod TourLaws
pub mod StartLaws
pub mod EnteredOnce
pub mod NeverStays
