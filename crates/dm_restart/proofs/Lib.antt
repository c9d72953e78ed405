pub mod Maxima
pub mod Reversing
pub mod Recorded
pub mod Numbers
pub mod Lacking
pub mod Insides
pub mod Restarting
