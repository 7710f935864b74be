mod Plain
mod Taken
