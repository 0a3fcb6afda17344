mod Picking
mod Limiting
