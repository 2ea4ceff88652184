-- Bytes of a text as they are told apart before they are read: where strings, comments and brackets begin and end.
use Rattle.std.specs.Prelude.{ℕ, suc, ◌+◌, ◌-◌, List, [], ◌∷◌, length, Bool, false, not, ◌&&◌, ◌||◌, ◌==◌, if◌then◌else◌}
use Rattle.std.specs.List.{prefix_len}
use Rattle.rules_text.specs.text.Lexical.{is_white, opens, closes}
use Rattle.mich_text.specs.declared.pieces.scan.Mode.{Mode}
use Rattle.mich_text.specs.declared.pieces.scan.Mode.TheVariants.{Outside, Slash, Line, Block, Text, Escape}

abbrev pub mode_after : Mode → ℕ → Mode
mode_after Outside c = if c == 34 then Text else (if c == 35 then Line else (if c == 47 then Slash else Outside))
mode_after Slash c = if c == 42 then Block 1 0 else Outside
mode_after Line c = if c == 10 then Outside else Line
mode_after (Block levels previous) c =
    if opens previous c then Block (levels + 1) 0
    else (if closes previous c then (if levels == 1 then Outside else Block (levels - 1) 0)
    else Block levels c)
mode_after Text c = if c == 34 then Outside else (if c == 92 then Escape else Text)
mode_after Escape c = Text

-- how many brackets are open
abbrev pub depth_after : Mode → ℕ → ℕ → ℕ
depth_after Outside depth c = if c == 123 || c == 40 then suc depth else (if c == 125 || c == 41 then depth - 1 else depth)
depth_after Slash depth c = depth
depth_after Line depth c = depth
depth_after (Block levels previous) depth c = depth
depth_after Text depth c = depth
depth_after Escape depth c = depth

-- a `;` outside of all brackets
abbrev pub is_sign : Mode → ℕ → ℕ → Bool
is_sign Outside depth c = c == 59 && depth == 0
is_sign Slash depth c = false
is_sign Line depth c = false
is_sign (Block levels previous) depth c = false
is_sign Text depth c = false
is_sign Escape depth c = false

-- outside of strings and comments this byte changes neither, and is no such `;`
abbrev pub is_plain : ℕ → Bool
is_plain c = not (c == 34 || c == 35 || c == 47 || c == 123 || c == 40 || c == 125 || c == 41 || c == 59)

-- in a string this byte neither ends it nor escapes the next one
abbrev pub is_inner : ℕ → Bool
is_inner c = not (c == 34 || c == 92)

-- how many bytes at the front change nothing
abbrev pub run_of : Mode → List ℕ → ℕ
run_of Outside text = prefix_len is_plain text
run_of Slash text = 0
run_of Line text = 0
run_of (Block levels previous) text = 0
run_of Text text = prefix_len is_inner text
run_of Escape text = 0

-- how many bytes of a statement there are, where with this one its first byte is known, else 0
abbrev pub started : Mode → ℕ → ℕ
started Outside c = if is_white c || (c == 35 || c == 47) then 0 else 1
started Slash c = if c == 42 then 0 else 2
started Line c = 0
started (Block levels previous) c = 0
started Text c = 0
started Escape c = 0

-- how many there are with this byte
abbrev pub since_after : Mode → ℕ → ℕ → ℕ
since_after mode since c = if since == 0 then started mode c else since + 1

abbrev pub levels_of : Mode → ℕ
levels_of Outside = 0
levels_of Slash = 0
levels_of Line = 0
levels_of (Block levels previous) = levels
levels_of Text = 0
levels_of Escape = 0

-- how many bytes are left at the first such `;`, or 0
abbrev pub sign_at : Mode → ℕ → List ℕ → ℕ
sign_at mode depth [] = 0
sign_at mode depth (c ∷ rest) = if is_sign mode depth c then suc (length rest) else sign_at (mode_after mode c) (depth_after mode depth c) rest

-- how many bytes are left at the first byte of a statement, or 0
abbrev pub first_at : Mode → List ℕ → ℕ
first_at mode [] = 0
first_at mode (c ∷ rest) = if started mode c == 0 then first_at (mode_after mode c) rest else started mode c + length rest
