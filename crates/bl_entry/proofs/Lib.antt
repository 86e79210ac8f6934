mod Parses
mod Numbers
mod Parts
mod Entries
mod Loop
mod Appends
