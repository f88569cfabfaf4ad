pub mod Reading
pub mod Printed
pub mod Program
pub mod InputLines
