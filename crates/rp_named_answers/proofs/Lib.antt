mod Numbers
mod Literals
mod Within
mod Fresh
mod Apart
mod Parts
mod Fits
mod Read
