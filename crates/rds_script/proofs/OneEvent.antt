-- A row says one event, and a script's rows say one list of them.
use Rattle.std.proofs.Common.{◌≡◌, ◌∷◌, [], ℕ, Bool, List, arith, refl}
use Rattle.rds_charset.specs.Laws.{TextIsReadOneWay}
use Rattle.rds_fields.specs.Tag.{PairFields}
use Rattle.rds_world.specs.declared.event.Command.{Command}
use Rattle.rds_world.specs.Event.{Event}
use Rattle.rds_world.specs.declared.world.Config.{Config}
use Rattle.rds_script.specs.Rows.{AreRows, IsNameArgument, Record, SaysCommand, SaysEvent, free_field, numbers_of_pair}
use Rattle.rds_script.proofs.Receptions.{same_receptions}
use Rattle.rds_script.proofs.Numbers.{same_numbers}

-- eight numbers are those of one pair
same_pair : (p q : PairFields) → numbers_of_pair p ≡ numbers_of_pair q → p ≡ q
same_pair p q e = grind arith

same_name : TextIsReadOneWay → (argument x y : List ℕ) → IsNameArgument argument x → IsNameArgument argument y → x ≡ y
same_name one argument x y p q = grind (arith, one argument p.given q.given p.read q.read)

-- a word and its argument say one command
same_command : TextIsReadOneWay → (word argument : List ℕ) (c d : Command) → SaysCommand word argument c
    → SaysCommand word argument d → c ≡ d
same_command one word argument c d p q = grind (arith, same_name, same_pair, same_numbers)

same_free : (a b : Bool) → free_field a ≡ free_field b → a ≡ b
same_free a b e = grind arith

-- a row says one event at most
pub same_event : TextIsReadOneWay → (row : Record) (e f : Event) → SaysEvent row e → SaysEvent row f → e ≡ f
same_event one row e f p q = grind (arith, same_command, same_free, same_receptions)

-- records are the rows of one list of events at most
pub same_events : TextIsReadOneWay
    → (config : Config) (n other_n : ℕ) (records : List Record) (events other : List Event)
    → AreRows config n records events → AreRows config other_n records other → events ≡ other
same_events one config n k [] [] [] p q = refl
same_events one config n k (row ∷ records) (e ∷ events) (f ∷ other) p q =
    search (arith, same_events one config n k records events other p.2 q.2, same_event)
same_events one config n k _ _ _ p q = grind arith
