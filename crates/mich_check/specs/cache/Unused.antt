-- How bodies are used.
use Rattle.mich_check.specs.declared.cache.bodies.Uses.{Uses}

-- not at all
abbrev pub unused : Uses
unused = record { hits = 0; misses = 0 }
