-- What a receiver shows at the end of the newest slot of what it heard. Lists have the newest first.
use Rattle.std.specs.Prelude.{◌≡◌, ◌≤◌, ℕ, Bool, List, Option, MatchOption, length}
use Rattle.std.specs.Borrow.{Bor}
use Rattle.std.specs.Option.{ForSome}
use Rattle.rds_block.specs.declared.group.Group.{Group}
use Rattle.rds_fields.specs.declared.message.Message.{Message}
use Rattle.rds_fields.specs.Tag.{PairFields}
use Rattle.rds_fields.specs.declared.pair.Which.{Which}
use Rattle.rds_fields.specs.declared.pair.Which.TheVariants.{One, Two}
use Rattle.rds_assembly.specs.Cells.{Cells}
use Rattle.rds_assembly.specs.Whole.{IsWholeName, IsWholeText}
use Rattle.rds_receiver.specs.Receipts.{Tuning, heard_of, name_fragment, text_fragment}
use Rattle.rds_receiver.specs.Run.{cells_of, run_at}
use Rattle.rds_receiver.specs.Tags.{item_of, pair_held, tag_of}
use Rattle.rds_receiver.specs.Confirmed.{counted}

-- the value that the cells make whole is shown; if they make none whole, nothing is shown
abbrev pub IsShown : (Cells → List ℕ → Type 0) → Cells → Option (List ℕ) → Type 0
IsShown IsWhole cells shown = MatchOption shown ((x : List ℕ) → IsWhole cells x → ⊥) (λ x. IsWhole cells x)

-- the text shown is the one that the run of texts makes whole
abbrev pub IsTextShown : ℕ → ℕ → List (Option Message) → Option (List ℕ) → Type 0
IsTextShown m first heard shown = IsShown IsWholeText (cells_of (run_at text_fragment m first heard)) shown

-- the name shown is the one that the run of names makes whole
abbrev pub IsNameShown : ℕ → ℕ → List (Option Message) → Option (List ℕ) → Type 0
IsNameShown m first heard shown = IsShown IsWholeName (cells_of (run_at name_fragment m first heard)) shown

-- the item bits shown follow from the text shown and the pair held
abbrev pub IsItemShown : ℕ → ℕ → List (Option Message) → Option (Bool × Bool) → Type 0
IsItemShown m first heard item =
    (text : Option (List ℕ)) → IsTextShown m first heard text → item ≡ item_of text (pair_held m first heard)

-- each tag shown follows from the text shown and the pair held
abbrev pub IsTagShown : ℕ → ℕ → List (Option Message) → Which → Option (ℕ × List ℕ) → Type 0
IsTagShown m first heard which tag =
    (text : Option (List ℕ)) → IsTextShown m first heard text → tag ≡ tag_of which text (pair_held m first heard)

-- all that a receiver shows
pub record ShownView : Type 0 where
  pub text : Option (List ℕ)
  pub name : Option (List ℕ)
  pub item : Option (Bool × Bool)
  pub one : Option (ℕ × List ℕ)
  pub two : Option (ℕ × List ℕ)

-- the view of a text, a name and a pair of tags
abbrev pub view_with : Option (List ℕ) → Option (List ℕ) → Option PairFields → ShownView
view_with text name pair = record {
  text = text;
  name = name;
  item = item_of text pair;
  one = tag_of One text pair;
  two = tag_of Two text pair;
}

-- the text or name has at most 64 bytes, if there is one
abbrev pub IsShortText : Option (Bor (List ℕ)) → Type 0
IsShortText text = ForSome text (λ x. length x.now ≤ 64)

-- the piece of the tag has at most 64 bytes, if there is one
abbrev pub IsShortTag : Option (ℕ × Bor (List ℕ)) → Type 0
IsShortTag tag = ForSome tag (λ tag. length tag.1.now ≤ 64)

-- no text, name or piece has more than 64 bytes
pub record IsShort (text name : Option (Bor (List ℕ))) (one two : Option (ℕ × Bor (List ℕ))) : Type 0 where
  pub text_bytes : IsShortText text
  pub name_bytes : IsShortText name
  pub one_bytes : IsShortTag one
  pub two_bytes : IsShortTag two

-- the view after what was heard
pub record ShowsView (m first : ℕ) (heard : List (Option Message)) (view : ShownView) : Type 0 where
  pub text : IsTextShown m first heard view.text
  pub name : IsNameShown m first heard view.name
  pub item : view.item ≡ item_of view.text (pair_held m first heard)
  pub one : view.one ≡ tag_of One view.text (pair_held m first heard)
  pub two : view.two ≡ tag_of Two view.text (pair_held m first heard)

-- the view at the end of an input, of what counts for this tuning
abbrev pub IsView : Tuning → List (Option Group) → ShownView → Type 0
IsView t input view = ShowsView t.dwell t.first (counted t (heard_of t.programme input)) view
