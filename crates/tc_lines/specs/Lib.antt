pub mod Reading
pub mod Answering
pub mod Word
pub mod Number
pub mod Printed
