-- Lemmas on sights of big maps: what a value that fits its type is seen as, whatever lies in its big maps.
pub mod Sights
