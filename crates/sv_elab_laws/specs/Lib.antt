pub mod Numbering
pub mod SameStates
pub mod Numbers
pub mod FlattenedTexts
pub mod SideBySide
pub mod InOrder
pub mod Children
pub mod Rounds
