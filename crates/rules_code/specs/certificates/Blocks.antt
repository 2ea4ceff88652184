-- The blocks that typing goes through within an instruction, from left to right (Michelson reference, "Control
-- structures" and others). Locations are counted in pre-order from the instruction, which is 0.
use Rattle.std.specs.Prelude.{ℕ, ◌+◌, true, List, [], ◌∷◌, drop}
use Rattle.rules_text.specs.nodes.Tree.{Tree, Trees, none, more, size}
use Rattle.rules_data.specs.types.Kind.{Kind, option, or, pair, list, set, map}
use Rattle.rules_data.specs.values.Val.{Val}
use Rattle.rules_data.specs.values.Literals.{Literal, good, bad, Pending, body, claim, read}
use Rattle.rules_code.specs.instructions.Types.{bool}
use Rattle.rules_code.specs.instructions.Context.{Context}
use Rattle.rules_code.specs.instructions.Context as place
use Rattle.rules_code.specs.instructions.Arguments.{Found, found, fault}
use Rattle.rules_code.specs.instructions.Control.{push_of, dip_of, lambda_of, call_kinds}
use Rattle.rules_code.specs.instructions.Forms.{Form}
use Rattle.rules_code.specs.instructions.Forms as f
use Rattle.rules_code.specs.typing.Scripts.{Outline, TypedView}
use Rattle.rules_code.specs.typing.Nodes.{outline}

-- where a block stands, its context, and the types that it begins with
pub record Block : Type 0 where
  pub location : ℕ
  pub context : Context
  pub stack : List Kind

abbrev pub block : ℕ → Context → List Kind → Block
block at c A = record { location = at; context = c; stack = A }

-- the blocks by what was read of the arguments
abbrev pub on_found : {A : Type 0} → Found A → (A → List Block) → List Block
on_found (found x) next = next x
on_found (fault l) next = []

-- where the last of the arguments stands, the first of them at a location
abbrev pub last_location : Trees → ℕ → ℕ
last_location none at = at
last_location (more t none) at = at
last_location (more t (more u ts)) at = last_location (more u ts) (at + size t)

-- ---- literals

-- the bodies of the lambdas in a literal
abbrev pub pending_blocks : List Pending → List Block
pending_blocks [] = []
pending_blocks (body at a r recursive t ∷ ps) = block at place.lambda (call_kinds a r recursive) ∷ pending_blocks ps
pending_blocks (claim at b a ∷ ps) = pending_blocks ps

abbrev pub literal_blocks : Literal Val → List Block
literal_blocks (good x ps) = pending_blocks ps
literal_blocks (bad l) = []

-- ---- scripts

abbrev pub view_blocks : ℕ → Kind → List TypedView → List Block
view_blocks at s [] = []
view_blocks at s (v ∷ vs) = block (at + v.body.location) place.view (pair v.input s ∷ []) ∷ view_blocks at s vs

-- the code of a script at a location, and then its views in their order, wherever these sections stand
abbrev pub outline_blocks : ℕ → Outline → List Block
outline_blocks at o = block (at + o.code.location) (place.main o.entries) (pair o.parameter o.storage ∷ []) ∷ view_blocks at o.storage o.views

abbrev pub script_blocks : ℕ → Tree → List Block
script_blocks at t = on_found (outline t) (outline_blocks at)

-- ---- instructions

abbrev pub blocks : Form → Trees → Context → List Kind → List Block
blocks f.push ts c A = on_found (push_of ts) (λ p. literal_blocks (read p.kind p.location p.literal))
blocks f.dip ts c A = on_found (dip_of ts) (λ n. block (last_location ts 1) c (drop n A) ∷ [])
blocks f.lambda ts c A = on_found (lambda_of ts) (λ x. block (last_location ts 1) place.lambda (x.argument ∷ []) ∷ [])
blocks f.lambda_rec ts c A = on_found (lambda_of ts) (λ x. block (last_location ts 1) place.lambda (call_kinds x.argument x.result true) ∷ [])
blocks f.if_bool (more b (more d none)) c (bool ∷ A) = block 1 c A ∷ block (1 + size b) c A ∷ []
blocks f.if_none (more b (more d none)) c (option a ∷ A) = block 1 c A ∷ block (1 + size b) c (a ∷ A) ∷ []
blocks f.if_left (more b (more d none)) c (or l r ∷ A) = block 1 c (l ∷ A) ∷ block (1 + size b) c (r ∷ A) ∷ []
blocks f.if_cons (more b (more d none)) c (list a ∷ A) = block 1 c (a ∷ list a ∷ A) ∷ block (1 + size b) c A ∷ []
blocks f.loop (more b none) c (bool ∷ A) = block 1 c A ∷ []
blocks f.loop_left (more b none) c (or l r ∷ A) = block 1 c (l ∷ A) ∷ []
blocks f.iter (more b none) c (list a ∷ A) = block 1 c (a ∷ A) ∷ []
blocks f.iter (more b none) c (set a ∷ A) = block 1 c (a ∷ A) ∷ []
blocks f.iter (more b none) c (map k v ∷ A) = block 1 c (pair k v ∷ A) ∷ []
blocks f.map (more b none) c (list a ∷ A) = block 1 c (a ∷ A) ∷ []
blocks f.map (more b none) c (option a ∷ A) = block 1 c (a ∷ A) ∷ []
blocks f.map (more b none) c (map k v ∷ A) = block 1 c (pair k v ∷ A) ∷ []
blocks f.create_contract (more t none) c A = script_blocks 1 t
blocks form ts c A = []
