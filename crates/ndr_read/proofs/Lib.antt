mod Flats
mod Follows
mod Heaps
mod Octets
mod Rows
