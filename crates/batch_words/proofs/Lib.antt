mod Storing
mod Fitting
