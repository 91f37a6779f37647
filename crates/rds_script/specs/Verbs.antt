-- The first field of a row, word by word. This is the project's own format.
use Rattle.std.specs.Prelude.{ℕ, List, codes}
use Rattle.rds_script.specs.declared.row.Verb.{Verb}
use Rattle.rds_script.specs.declared.row.Verb.TheVariants.{Nothing, Restart, Text, Name, Tags}

abbrev pub verb_word : Verb → List ℕ
verb_word Nothing = codes "-"
verb_word Restart = codes "restart"
verb_word Text = codes "text"
verb_word Name = codes "name"
verb_word Tags = codes "tags"
