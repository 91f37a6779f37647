-- The kinds by which words are answered.
use Rattle.std.proofs.Common.{arith, ◌≡◌, Bool, List, true, [], ◌∷◌, inl, inr}
use Rattle.std.proofs.lemmas.Bool.Decides.{nat_tests}
use Rattle.std.specs.List.{list_all}
use Rattle.clap.specs.Words.{IsAmong, Kinds, fault_of}
use Rattle.clap.specs.declared.error.kind.ErrorKind.{ErrorKind}
use Rattle.clap.specs.Walk.{Text}
use Rattle.rds_cli.specs.CommandLine.{AreAnswered, whole_app}

among : (test : ErrorKind → Bool) (k : ErrorKind) (kinds : Kinds) → IsAmong k kinds → list_all test kinds ≡ true
    → test k ≡ true
among test k [] none all = absurd none
among test k (x ∷ xs) (inl same) all = grind (arith)
among test k (x ∷ xs) (inr later) all = grind (arith, among test k xs later)

-- one of the kinds passes the test
pub answered_by : (test : ErrorKind → Bool) (words : List Text) (k : ErrorKind) → AreAnswered test words
    → IsAmong k (fault_of whole_app words) → test k ≡ true
answered_by test words k answered is = grind (arith, nat_tests, among)
