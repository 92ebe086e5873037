pub mod Numbers
pub mod Designs
pub mod Tables
pub mod Orders
pub mod Circles
pub mod Feeds
pub mod Depths
