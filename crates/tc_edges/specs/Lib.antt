pub mod Fecf
pub mod Cltu
pub mod Tm
pub mod Write
