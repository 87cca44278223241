mod Begins
mod Words
mod Mailboxes
mod Arrays
mod Kernels
mod Fates
mod Scripts
