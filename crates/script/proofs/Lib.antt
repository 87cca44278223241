mod Meaning
mod Spelling
mod Writing
mod Cutting
mod Laws
mod Liner
