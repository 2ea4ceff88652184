-- The ranges of the fields of statements (this host's own).
use Rattle.std.specs.Prelude.{◌≡◌, ◌≤◌, ◌<◌, ◌^◌, true, length}
use Rattle.std.specs.List.{All}
use Rattle.rules_text.specs.nodes.Limits.{most_mutez, most_contents, most_rate}
use Rattle.rules_text.specs.nodes.Tree.{size}
use Rattle.rules_data.specs.gas.Tables.{is_table}
use Rattle.rules_data.specs.forms.Spelling.{is_chain_id, is_key_hash}
use Rattle.rules_world.specs.world.Forms.{is_moment, IsContent}
use Rattle.rules_files.specs.statements.Statements.{Statement, Chain, Profile, Costs, Account, Block, Group}

abbrev pub IsStatement : Statement → Type 0
IsStatement (Chain id level moment) = (is_chain_id id ≡ true) × (level < 2 ^ 32) × (is_moment moment ≡ true)
IsStatement (Profile rate) = rate ≤ most_rate
IsStatement (Costs table) = (is_table table ≡ true) × (size table < 2 ^ 32)
IsStatement (Account key_hash mutez) = (is_key_hash key_hash ≡ true) × (mutez ≤ most_mutez)
IsStatement (Block level moment) = (level < 2 ^ 32) × (is_moment moment ≡ true)
IsStatement (Group source contents) = (is_key_hash source ≡ true) × All IsContent contents × (length contents ≤ most_contents)
