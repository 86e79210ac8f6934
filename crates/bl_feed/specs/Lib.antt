pub mod Words
pub mod Bodies
pub mod StatusBodies
pub mod PagePieces
pub mod LoadBodies
pub mod Parameters
