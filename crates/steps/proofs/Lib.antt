pub mod Verticals
