mod Feeds
mod Lines
mod Texts
