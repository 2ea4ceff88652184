-- What a script that is accepted says, and the entrypoints of contracts.
use Rattle.std.proofs.Common.{◌≡◌, ℕ, List, [], ◌∷◌, Bool, true, false, Some, None, refl, sym, ap, ◌∙◌, is_some}
use Rattle.std.specs.Prelude.{if◌then◌else◌, option_and_then}
use Rattle.std.specs.declared.option.Option.{Option}
use Rattle.std.specs.Str.{bytes_eq}
use Rattle.std.specs.Cmp.Lexicographic.{bytes_decides}
use Rattle.rules_text.specs.nodes.Tree.{Tree, int, str, bytes, prim, seq}
use Rattle.rules_data.specs.forms.Spelling.{default_name, spelled_address, place_of, entrypoint_of, is_implicit}
use Rattle.rules_data.specs.types.Kind.{Kind}
use Rattle.rules_data.specs.types.Entrypoints.{Entry, find_entry}
use Rattle.rules_code.specs.instructions.Arguments.{Found, found, fault, and_then}
use Rattle.rules_code.specs.instructions.Same.{same_kind}
use Rattle.rules_code.specs.typing.Scripts.{Script, View, Outline, unless_fault, code_fault, with_views, a_script, with_bodies}
use Rattle.rules_code.specs.typing.Nodes.{outline, script}
use Rattle.rules_code.specs.evaluation.Surroundings.{Contract}
use Rattle.rules_code.specs.evaluation.Contracts.{Lookup, if_found, outline_in, entry_in, hash_in, chosen_entrypoint, takes, address_where, contract_named, is_contract_of}
use Rattle.rules_world.specs.world.World.{World, contract_at}
use Rattle.rules_world.specs.world.Targets.{Target, Search, met, missing, unreadable, with_entry, in_contract, search}
use Rattle.laws_data.proofs.types_lemmas.ForCallers.{same_kind_true}
use Rattle.laws_world.proofs.accounts.ForCallers.{Extends}
use Rattle.laws_world.proofs.runs.Worlds.{IsOrderly, contract_stores}

-- ---- scripts

-- a script is an outline whose bodies have no fault
pub record IsScript (t : Tree) (s : Script) : Type 0 where
  pub of : Outline
  pub views : List View
  pub outlined : outline t ≡ found of
  pub code : code_fault of ≡ None
  pub is : s ≡ a_script of views

by_outline : (t : Tree) → script t ≡ and_then (outline t) with_bodies
by_outline (int n) = refl
by_outline (str b) = refl
by_outline (bytes b) = refl
by_outline (prim name annots ts) = refl
by_outline (seq ts) = refl

pub script_is : (t : Tree) (s : Script) → script t ≡ found s → IsScript t s
script_is t s h = by (outline t) refl (sym (by_outline t) ∙ h)
  where
    by_views : (o : Outline) → outline t ≡ found o → code_fault o ≡ None → (f : Found (List View)) →
        and_then f (λ vs. found (a_script o vs)) ≡ found s → IsScript t s
    by_views o e c (found vs) g = let same : a_script o vs ≡ s = cc in
        record { of = o; views = vs; outlined = e; code = c; is = sym same }
    by_views o e c (fault l) g = absurd cc

    by_code : (o : Outline) → outline t ≡ found o → (f : Option ℕ) → code_fault o ≡ f →
        unless_fault f (and_then (with_views o.storage o.views) (λ vs. found (a_script o vs))) ≡ found s → IsScript t s
    by_code o e (Some l) c g = absurd cc
    by_code o e None c g = by_views o e c (with_views o.storage o.views) g

    by : (o : Found Outline) → outline t ≡ o → and_then o with_bodies ≡ found s → IsScript t s
    by (found o) e g = by_code o e (code_fault o) refl g
    by (fault l) e g = absurd cc

pub script_one : (t : Tree) (r s : Script) → script t ≡ found r → script t ≡ found s → r ≡ s
script_one t r s h g = let both : found r ≡ found s = sym h ∙ g in cc

-- the entrypoints that a run sees are those of the script
pub entry_of_script : (t : Tree) (s : Script) (name : List ℕ) → script t ≡ found s →
    option_and_then (λ o. find_entry name o.entries) (outline_in t) ≡ find_entry name s.entries
entry_of_script t s name h =
    let i = script_is t s h in
    ap (λ o. option_and_then (λ o. find_entry name o.entries) (if_found o)) i.outlined
    ∙ ap (λ (s : Script). find_entry name s.entries) (sym i.is)

-- ---- entrypoints

pub bytes_one : (a b : List ℕ) → bytes_eq a b ≡ true → a ≡ b
bytes_one a b h = (bytes_decides a b).0 h

-- an entrypoint that is found by a name has it
pub named_so : (name : List ℕ) (es : List Entry) (e : Entry) → find_entry name es ≡ Some e → e.name ≡ name
named_so name [] e h = absurd cc
named_so name (x ∷ es) e h = by (bytes_eq x.name name) refl h (named_so name es e)
  where
    by : (b : Bool) → bytes_eq x.name name ≡ b → (if b then Some x else find_entry name es) ≡ Some e →
        (find_entry name es ≡ Some e → e.name ≡ name) → e.name ≡ name
    by true t g later = let same : x ≡ e = cc in ap (λ (e : Entry). e.name) (sym same) ∙ bytes_one x.name name t
    by false t g later = later g

-- a contract of the world with this entrypoint
pub record IsMet (w : World) (t : Target) : Type 0 where
  pub contract : Contract
  pub there : contract_at w t.hash ≡ Some contract
  pub read : script contract.script ≡ found t.script
  pub entry : find_entry t.entry.name t.script.entries ≡ Some t.entry

pub met_again : (w : World) (t : Target) → IsMet w t → search w t.hash t.entry.name ≡ met t
met_again w t m = rw (m.there, m.read, m.entry) refl

pub met_more : (w x : World) (t : Target) → Extends (contract_at w) (contract_at x) → IsMet w t → IsMet x t
met_more w x t more m =
    let d = more t.hash m.contract m.there in
    record { contract = d.0; there = d.1; read = ap script d.2 ∙ m.read; entry = m.entry }

-- what a search promises in a good world
abbrev pub Searched : World → List ℕ → List ℕ → Search → Type 0
Searched w hash name (met t) = IsMet w t × (t.hash ≡ hash) × (t.entry.name ≡ name)
Searched w hash name (missing failure) = Unit {0}
Searched w hash name unreadable = ⊥

pub searched : (w : World) → IsOrderly w → (hash name : List ℕ) → Searched w hash name (search w hash name)
searched w o hash name = by (contract_at w hash) refl
  where
    by_entry : (c : Contract) (s : Script) → contract_at w hash ≡ Some c → script c.script ≡ found s → (e : Option Entry) →
        find_entry name s.entries ≡ e → Searched w hash name (with_entry hash s e)
    by_entry c s there i (Some e) f =
        let named = named_so name s.entries e f in
        (record { contract = c; there = there; read = i; entry = ap (λ n. find_entry n s.entries) named ∙ f }, refl, named)
    by_entry c s there i None f = tt

    by : (c : Option Contract) → contract_at w hash ≡ c → Searched w hash name (in_contract hash name c)
    by None there = tt
    by (Some c) there =
        let s = contract_stores w o hash c there in
        rw s.1 (by_entry c s.0 there s.1 (find_entry name s.0.entries) refl)

-- ---- addresses that are those of contracts

taken_named : (l : Lookup) (a : Kind) (place name : List ℕ) →
    is_some (contract_named l place a (chosen_entrypoint name default_name)) ≡ true → takes l place name a ≡ true
taken_named l a place name h = by_name (bytes_eq name default_name) refl h
  where
    by_takes : (n : List ℕ) (b : Bool) → takes l place n a ≡ b → is_some (address_where b (spelled_address place n)) ≡ true →
        takes l place n a ≡ true
    by_takes n true e g = e
    by_takes n false e g = absurd cc

    by_name : (b : Bool) → bytes_eq name default_name ≡ b → is_some
        (contract_named l place a
        (if b then Some default_name else if bytes_eq default_name default_name then Some name else None)) ≡ true →
        takes l place name a ≡ true
    by_name true e g =
        let n : name ≡ default_name = bytes_one name default_name e in
        ap (λ n. takes l place n a) n ∙ by_takes default_name (takes l place default_name a) refl g
    by_name false e g = by_takes name (takes l place name a) refl g

-- the entrypoint that an address names takes this type
pub address_takes : (l : Lookup) (a : Kind) (address : List ℕ) → is_contract_of l a address ≡ true →
    takes l (place_of address) (entrypoint_of address) a ≡ true
address_takes l a address h = taken_named l a (place_of address) (entrypoint_of address) h

-- so one that is met there has it
pub met_takes : (w : World) (t : Target) (a : Kind) (place name : List ℕ) → IsMet w t → is_implicit place ≡ false →
    t.hash ≡ hash_in place → t.entry.name ≡ name → takes (contract_at w) place name a ≡ true →
    t.entry.kind ≡ a
met_takes w t a place name m implicit hash named h =
    same_kind_true t.entry.kind a (sym (is implicit) ∙ h)
  where
    there : contract_at w (hash_in place) ≡ Some m.contract
    there = ap (contract_at w) (sym hash) ∙ m.there

    found_entry : option_and_then (entry_in name) (contract_at w (hash_in place)) ≡ Some t.entry
    found_entry =
        ap (option_and_then (entry_in name)) there ∙ entry_of_script m.contract.script t.script name m.read
        ∙ ap (λ n. find_entry n t.script.entries) (sym named) ∙ m.entry

    is : is_implicit place ≡ false → takes (contract_at w) place name a ≡ same_kind t.entry.kind a
    is e = rw (e, found_entry) refl
