mod Bytes
mod Calls
mod Readings
mod Known
mod Sides
