-- The files that words name.
use Rattle.std.proofs.Common.{◌≡◌, ℕ, Bool, true, false, ◌&&◌, cond, List, [], ◌∷◌, drop, codes, Some, None, sym, ap}
use Rattle.std.specs.declared.option.Option.{Option}
use Rattle.std.specs.Str.{bytes_eq}
use Rattle.rules_files.specs.commands.Commands.{OnFile, Resuming, NoCommand, Verb, is_path, verb_of, on_file, calls_of, on_calls, command_of}

module _ (verb : Verb) (path : List ℕ) where
  no_calls : (o : Option ℕ) → OnFile verb path ≡ on_calls o → ⊥
  no_calls (Some calls) e = absurd cc
  no_calls None e = absurd cc

  path_if : (b : Bool) (other : Verb) (word : List ℕ) → OnFile verb path ≡ cond b (OnFile other word) NoCommand → path ≡ word
  path_if true other word e = cc
  path_if false other word e = absurd cc

  path_of : (o : Option Verb) (word : List ℕ) → OnFile verb path ≡ on_file o word → path ≡ word
  path_of (Some other) word e = path_if (is_path word) other word e
  path_of None word e = absurd cc

  either : (b : Bool) (o : Option ℕ) (v : Option Verb) (word : List ℕ) → OnFile verb path ≡ cond b (on_calls o) (on_file v word) → path ≡ word
  either true o v word e = absurd (no_calls o e)
  either false o v word e = path_of v word e

  no_files : (b both : Bool) (snapshot other : List ℕ) → OnFile verb path ≡ cond b (cond both (Resuming snapshot other) NoCommand) NoCommand → ⊥
  no_files true true snapshot other e = absurd cc
  no_files true false snapshot other e = absurd cc
  no_files false both snapshot other e = absurd cc

  -- the words of a command with a file are its name and the file
  pub only_path : (words : List (List ℕ)) → OnFile verb path ≡ command_of words → drop 1 words ≡ path ∷ []
  only_path [] e = absurd cc
  only_path (name ∷ []) e = absurd cc
  only_path (name ∷ word ∷ []) e =
      sym (ap (λ (w : List ℕ). w ∷ []) (either (bytes_eq name (codes "generate")) (calls_of word) (verb_of name) word e))
  only_path (name ∷ snapshot ∷ other ∷ []) e = absurd (no_files (bytes_eq name (codes "resume")) (is_path snapshot && is_path other) snapshot other e)
  only_path (name ∷ snapshot ∷ other ∷ more ∷ words) e = absurd cc

module _ (snapshot path : List ℕ) where
  no_calls_behind : (o : Option ℕ) → Resuming snapshot path ≡ on_calls o → ⊥
  no_calls_behind (Some calls) e = absurd cc
  no_calls_behind None e = absurd cc

  no_file_if : (b : Bool) (verb : Verb) (word : List ℕ) → Resuming snapshot path ≡ cond b (OnFile verb word) NoCommand → ⊥
  no_file_if true verb word e = absurd cc
  no_file_if false verb word e = absurd cc

  no_file : (o : Option Verb) (word : List ℕ) → Resuming snapshot path ≡ on_file o word → ⊥
  no_file (Some verb) word e = no_file_if (is_path word) verb word e
  no_file None word e = absurd cc

  neither : (b : Bool) (o : Option ℕ) (v : Option Verb) (word : List ℕ) → Resuming snapshot path ≡ cond b (on_calls o) (on_file v word) → ⊥
  neither true o v word e = no_calls_behind o e
  neither false o v word e = no_file v word e

  both_if : (b both : Bool) (one other : List ℕ) → Resuming snapshot path ≡ cond b (cond both (Resuming one other) NoCommand) NoCommand → one ∷ other ∷ [] ≡ snapshot ∷ path ∷ []
  both_if true true one other e = cc
  both_if true false one other e = absurd cc
  both_if false both one other e = absurd cc

  -- those of a resumed file are its name, the snapshot and the file
  pub only_paths : (words : List (List ℕ)) → Resuming snapshot path ≡ command_of words → drop 1 words ≡ snapshot ∷ path ∷ []
  only_paths [] e = absurd cc
  only_paths (name ∷ []) e = absurd cc
  only_paths (name ∷ word ∷ []) e = absurd (neither (bytes_eq name (codes "generate")) (calls_of word) (verb_of name) word e)
  only_paths (name ∷ one ∷ other ∷ []) e = both_if (bytes_eq name (codes "resume")) (is_path one && is_path other) one other e
  only_paths (name ∷ one ∷ other ∷ more ∷ words) e = absurd cc
