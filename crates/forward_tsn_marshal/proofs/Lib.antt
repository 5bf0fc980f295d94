pub mod ForwardBytes
