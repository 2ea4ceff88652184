-- Looking a name up among those of its length.
use Rattle.std.specs.Prelude.{ℕ, List, [], ◌∷◌, Bool, false, length, slice_get, Option, Some, None, option_and_then}
use Rattle.std.specs.List.{find}
use Rattle.std.specs.Str.{bytes_eq}
use Rattle.rules_text.specs.nodes.Primitives.{name_of_code}

abbrev pub is_text_of : List ℕ → Option (List ℕ) → Bool
is_text_of name None = false
is_text_of name (Some known) = bytes_eq name known

-- whether a name is that of a code
abbrev pub is_name_of : List ℕ → ℕ → Bool
is_name_of name code = is_text_of name (name_of_code code)

-- the code of a name among these codes
abbrev pub code_among : List ℕ → List ℕ → Option ℕ
code_among name codes = find (is_name_of name) codes

-- at each length the codes of the names that have it
unfoldable pub codes_by_length : List (List ℕ)
codes_by_length =
    [] ∷
    [] ∷
    (37 ∷ 40 ∷ 42 ∷ 44 ∷ 50 ∷ 55 ∷ 65 ∷ 100 ∷ []) ∷
    (4 ∷ 17 ∷ 18 ∷ 20 ∷ 22 ∷ 23 ∷ 31 ∷ 33 ∷ 41 ∷ 48 ∷ 53 ∷ 54 ∷ 56 ∷ 57 ∷ 58 ∷ 59 ∷ 60 ∷ 61 ∷ 63 ∷ 64 ∷ 75 ∷ 81 ∷ 91 ∷ 92 ∷ 96 ∷ 98 ∷ 102 ∷ 112 ∷ 113 ∷ 156 ∷ []) ∷
    (2 ∷ 5 ∷ 6 ∷ 7 ∷ 9 ∷ 10 ∷ 11 ∷ 12 ∷ 27 ∷ 32 ∷ 34 ∷ 38 ∷ 51 ∷ 52 ∷ 62 ∷ 66 ∷ 67 ∷ 69 ∷ 70 ∷ 73 ∷ 76 ∷ 79 ∷ 82 ∷ 87 ∷ 89 ∷ 95 ∷ 101 ∷ 108 ∷ 126 ∷ 144 ∷ 145 ∷ 151 ∷ []) ∷
    (3 ∷ 8 ∷ 68 ∷ 86 ∷ 105 ∷ 106 ∷ 111 ∷ 115 ∷ 118 ∷ 120 ∷ 121 ∷ 141 ∷ 155 ∷ []) ∷
    (13 ∷ 15 ∷ 16 ∷ 19 ∷ 26 ∷ 49 ∷ 71 ∷ 72 ∷ 80 ∷ 88 ∷ 94 ∷ 99 ∷ 104 ∷ 122 ∷ 125 ∷ 135 ∷ 154 ∷ []) ∷
    (1 ∷ 14 ∷ 21 ∷ 25 ∷ 45 ∷ 46 ∷ 47 ∷ 84 ∷ 97 ∷ 110 ∷ []) ∷
    (39 ∷ 43 ∷ 85 ∷ 90 ∷ 93 ∷ 116 ∷ 117 ∷ 146 ∷ []) ∷
    (0 ∷ 35 ∷ 36 ∷ 83 ∷ 103 ∷ 107 ∷ 109 ∷ 142 ∷ 147 ∷ []) ∷
    (143 ∷ 152 ∷ 153 ∷ []) ∷
    (137 ∷ []) ∷
    (78 ∷ 119 ∷ 123 ∷ 128 ∷ 129 ∷ 130 ∷ 138 ∷ 139 ∷ []) ∷
    (114 ∷ 127 ∷ 131 ∷ []) ∷
    (28 ∷ 74 ∷ 140 ∷ 149 ∷ []) ∷
    (24 ∷ 29 ∷ 77 ∷ []) ∷
    (30 ∷ []) ∷
    (136 ∷ []) ∷
    (124 ∷ []) ∷
    (133 ∷ 150 ∷ []) ∷
    (148 ∷ []) ∷
    (134 ∷ []) ∷
    [] ∷
    [] ∷
    [] ∷
    [] ∷
    [] ∷
    [] ∷
    [] ∷
    [] ∷
    (132 ∷ []) ∷
    []

unfoldable pub code_by_length : List ℕ → Option ℕ
code_by_length name = option_and_then (code_among name) (slice_get codes_by_length (length name))
