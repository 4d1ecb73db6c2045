mod Inverted
mod LastOf
