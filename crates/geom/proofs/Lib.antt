-- The laws under the functions of `geom`.
mod Sizes
mod Spanning
