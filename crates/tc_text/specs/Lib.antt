pub use Rattle.tc_lines.specs.Word
pub use Rattle.tc_lines.specs.Number
pub mod Line
pub mod LiveLine
pub mod Reason
pub mod Reading
pub mod Printed
