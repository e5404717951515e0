-- What the contracts of `cone` say.
pub mod Cone
pub mod Domain
pub mod Outline
