mod Parts
mod Lines
mod Fronts
mod Words
mod Numbers
mod Encoded
