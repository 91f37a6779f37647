-- Lemmas: an input has one view.
use Rattle.std.proofs.Common.{◌≡◌, ℕ, List, ◌∷◌, Option, Some, None, refl, sym, ap, ◌∙◌, eq-eqb}
use Rattle.rds_block.specs.declared.group.Group.{Group}
use Rattle.rds_fields.specs.declared.message.Message.{Message}
use Rattle.rds_fields.specs.declared.pair.Which.TheVariants.{One, Two}
use Rattle.rds_fields.specs.OneMessage.{is_message_in}
use Rattle.rds_fields.specs.Spells.{Spells}
use Rattle.rds_assembly.specs.Cells.{Cells}
use Rattle.rds_assembly.specs.ServiceLaws.{one_name, one_text}
use Rattle.rds_receiver.specs.Receipts.{AreHeard, Hears, Tuning, heard_of, name_fragment, text_fragment}
use Rattle.rds_receiver.specs.Run.{cells_of, run_at}
use Rattle.rds_receiver.specs.Shown.{IsNameShown, IsShown, IsTextShown, IsView, ShowsView, ShownView}
use Rattle.rds_receiver.specs.Tags.{item_of, pair_held, tag_of}
use Rattle.rds_receiver.specs.Confirmed.{counted}

-- a receiver hears the message that a group with its PI spells
pub hears_spelled : (pi : ℕ) (g : Group) (m : Message) → g.pi ≡ pi → Spells m g → Hears pi (Some g) (Some m)
hears_spelled pi g m same spelled = rw (eq-eqb g.pi pi same) (ap Some (is_message_in m g spelled))

-- one more slot
pub heard_next : (pi : ℕ) (slot : Option Group) (input : List (Option Group)) (m : Option Message)
    (messages : List (Option Message)) → Hears pi slot m → AreHeard pi input messages
    → AreHeard pi (slot ∷ input) (m ∷ messages)
heard_next pi slot input m messages p q = λ i. p i ∷ q i

-- if no cells make two different values whole, then cells show one value
same_shown : (IsWhole : Cells → List ℕ → Type 0)
    → ((cells : Cells) (x y : List ℕ) → IsWhole cells x → IsWhole cells y → x ≡ y)
    → (cells : Cells) (shown other : Option (List ℕ)) → IsShown IsWhole cells shown → IsShown IsWhole cells other
    → shown ≡ other
same_shown IsWhole one cells None None p q = refl
same_shown IsWhole one cells None (Some y) p q = absurd (p y q)
same_shown IsWhole one cells (Some x) None p q = absurd (q x p)
same_shown IsWhole one cells (Some x) (Some y) p q = ap Some (one cells x y p q)

pub same_text_shown : (m first : ℕ) (heard : List (Option Message)) (shown other : Option (List ℕ))
    → IsTextShown m first heard shown → IsTextShown m first heard other → shown ≡ other
same_text_shown m first heard shown other p q =
    same_shown _ one_text (cells_of (run_at text_fragment m first heard)) shown other p q

pub same_name_shown : (m first : ℕ) (heard : List (Option Message)) (shown other : Option (List ℕ))
    → IsNameShown m first heard shown → IsNameShown m first heard other → shown ≡ other
same_name_shown m first heard shown other p q =
    same_shown _ one_name (cells_of (run_at name_fragment m first heard)) shown other p q

pub same_view_of : (m first : ℕ) (heard : List (Option Message)) (v w : ShownView) → ShowsView m first heard v
    → ShowsView m first heard w → v ≡ w
same_view_of m first heard v w p q =
    let text : v.text ≡ w.text = same_text_shown m first heard v.text w.text p.text q.text in
    let name : v.name ≡ w.name = same_name_shown m first heard v.name w.name p.name q.name in
    let item : v.item ≡ w.item =
    p.item ∙ ap (λ (x : Option (List ℕ)). item_of x (pair_held m first heard)) text ∙ sym q.item in
    let one : v.one ≡ w.one =
    p.one ∙ ap (λ (x : Option (List ℕ)). tag_of One x (pair_held m first heard)) text ∙ sym q.one in
    let two : v.two ≡ w.two =
    p.two ∙ ap (λ (x : Option (List ℕ)). tag_of Two x (pair_held m first heard)) text ∙ sym q.two in
    λ i. record { text = text i; name = name i; item = item i; one = one i; two = two i }

pub same_view : (t : Tuning) (input : List (Option Group)) (v w : ShownView) → IsView t input v → IsView t input w
    → v ≡ w
same_view t input v w p q = same_view_of t.dwell t.first (counted t (heard_of t.programme input)) v w p q
