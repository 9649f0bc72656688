pub mod Lines
pub mod Check
pub mod Dump
