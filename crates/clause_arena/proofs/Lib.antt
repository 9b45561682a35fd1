mod Laid
mod Moved
