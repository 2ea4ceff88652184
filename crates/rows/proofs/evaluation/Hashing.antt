-- Hashes of known digests.
use Rattle.std.specs.Prelude.{◌≡◌, refl, [], ◌∷◌, true}
use Rattle.rules_data.specs.values.Val as v
use Rattle.rules_data.specs.values.Val.{no_val, more_vals, no_pair, more_pairs}
use Rattle.rules_code.specs.instructions.Straight as i
use Rattle.rules_code.specs.steps.Step.{done}
use Rattle.rules_code.specs.steps.Packing.{hash_step}
use Rattle.sha2.specs.Sha256 as S
use Rattle.sha2.specs.Sha512 as L
use Rattle.rules_text.specs.hash.Blake2b as B

sha256_of_abc : hash_step (λ p. true) i.sha256 (v.bytes (97 ∷ 98 ∷ 99 ∷ []) ∷ []) ≡ done (v.bytes (186 ∷ 120 ∷ 22 ∷ 191 ∷ 143
    ∷ 1 ∷ 207 ∷ 234 ∷ 65 ∷ 65 ∷ 64 ∷ 222 ∷ 93 ∷ 174 ∷ 34 ∷ 35 ∷ 176 ∷ 3 ∷ 97 ∷ 163 ∷ 150 ∷ 23 ∷ 122 ∷ 156 ∷ 180 ∷ 16 ∷ 255 ∷
    97 ∷ 242 ∷ 0 ∷ 21 ∷ 173 ∷ []) ∷ []) []
unfolding S.sha256 S.first_words S.schedule S.rounds S.compress S.hash_after S.digest_bytes
sha256_of_abc = refl

sha512_of_abc : hash_step (λ p. true) i.sha512 (v.bytes (97 ∷ 98 ∷ 99 ∷ []) ∷ []) ≡ done (v.bytes (221 ∷ 175 ∷ 53 ∷ 161 ∷ 147
    ∷ 97 ∷ 122 ∷ 186 ∷ 204 ∷ 65 ∷ 115 ∷ 73 ∷ 174 ∷ 32 ∷ 65 ∷ 49 ∷ 18 ∷ 230 ∷ 250 ∷ 78 ∷ 137 ∷ 169 ∷ 126 ∷ 162 ∷ 10 ∷ 158 ∷ 238
    ∷ 230 ∷ 75 ∷ 85 ∷ 211 ∷ 154 ∷ 33 ∷ 146 ∷ 153 ∷ 42 ∷ 39 ∷ 79 ∷ 193 ∷ 168 ∷ 54 ∷ 186 ∷ 60 ∷ 35 ∷ 163 ∷ 254 ∷ 235 ∷ 189 ∷ 69
    ∷ 77 ∷ 68 ∷ 35 ∷ 100 ∷ 60 ∷ 232 ∷ 14 ∷ 42 ∷ 154 ∷ 201 ∷ 79 ∷ 165 ∷ 76 ∷ 164 ∷ 159 ∷ []) ∷ []) []
unfolding L.sha512 L.first_words L.schedule L.rounds L.compress L.hash_after L.digest_bytes
sha512_of_abc = refl

blake2b_of_nothing : hash_step (λ p. true) i.blake2b (v.bytes [] ∷ []) ≡ done (v.bytes (14 ∷ 87 ∷ 81 ∷ 192 ∷ 38 ∷ 229 ∷ 67 ∷
    178 ∷ 232 ∷ 171 ∷ 46 ∷ 176 ∷ 96 ∷ 153 ∷ 218 ∷ 161 ∷ 209 ∷ 229 ∷ 223 ∷ 71 ∷ 119 ∷ 143 ∷ 119 ∷ 135 ∷ 250 ∷ 171 ∷ 69 ∷ 205 ∷
    241 ∷ 47 ∷ 227 ∷ 168 ∷ []) ∷ []) []
unfolding B.blake B.mixed B.round B.rounds B.word_at B.compress B.hash_after
blake2b_of_nothing = refl
