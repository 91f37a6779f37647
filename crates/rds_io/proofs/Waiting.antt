-- How waiting output goes on: more waits, it is written, or the writer fails at it.
use Rattle.std.proofs.Common.{arith, ◌≡◌, ◌++◌, ◌∙◌, ℕ, List, [], Option, ap, append_assoc, refl, subst, sym, Ok}
use Rattle.std.proofs.lemmas.List.{append-nil}
use Rattle.std.proofs.KnownBytes.{Appends-nil, Appends-trans}
use Rattle.std.specs.Io.KnownBytes.{Appends}
use Rattle.rds_io.specs.Told.{AppendsPrefix, Failed, IsCalm, Traffic}
use Rattle.rds_io.specs.Puts.{AppendsPrefix-append, AppendsPrefix-longer, Puts}
use Rattle.rds_io.specs.Waits.{IsLost, Waits}

-- from a to b, with failures from f to g
abbrev from : Option (List ℕ) → Option (List ℕ) → ℕ → ℕ → Traffic
from a b f g = record { before = a; after = b; failures_before = f; failures_after = g }

-- nothing waits before the first line
pub nothing_waits : (w : Traffic) → w.after ≡ w.before → IsCalm w → Waits w [] []
nothing_waits w same calm = record {
  written = [];
  all = refl;
  wrote = subst (λ (after : Option (List ℕ)). Appends w.before after []) (sym same) (Appends-nil w.before);
  calm = calm;
}

-- more output waits
pub waits_more : (w : Traffic) (waiting after total bytes : List ℕ) → Waits w waiting total → after ≡ waiting ++ bytes
    → Waits w after (total ++ bytes)
waits_more w waiting after total bytes has more = record {
  written = has.written;
  all = ap (λ (l : List ℕ). has.written ++ l) more ∙ sym (append_assoc has.written waiting bytes)
      ∙ ap (λ (l : List ℕ). l ++ bytes) has.all;
  wrote = has.wrote;
  calm = has.calm;
}

-- the output that waits was written
pub writes : (waiting after total : List ℕ) (a b c : Option (List ℕ)) (f g h : ℕ) → Waits (from a b f g) waiting total
    → after ≡ []
    → Puts (from b c g h) waiting (Ok tt) → Waits (from a c f h) after total
writes waiting after total a b c f g h has none put = record {
  written = has.written ++ waiting;
  all = rw (none, append-nil (has.written ++ waiting)) has.all;
  wrote = Appends-trans a b c has.written waiting has.wrote put.0;
  calm = put.1 ∙ has.calm;
}

-- or the writer failed at it
pub loses : (waiting total : List ℕ) (a b c : Option (List ℕ)) (f g h : ℕ) → Waits (from a b f g) waiting total
    → AppendsPrefix b c waiting → Failed g h
    → IsLost (from a c f h) total
loses waiting total a b c f g h has part failed = record {
  wrote = rw has.all at (AppendsPrefix-append a b c has.written waiting has.wrote part);
  failed = rw has.calm at failed;
}

-- a writer that failed at output failed at more output
pub lost_longer : (w : Traffic) (total more : List ℕ) → IsLost w total → IsLost w (total ++ more)
lost_longer w total more lost = record {
  wrote = AppendsPrefix-longer w.before w.after total more lost.wrote;
  failed = lost.failed;
}

-- nothing waits: all output was written
pub wrote_all : (w : Traffic) (waiting total : List ℕ) → Waits w waiting total → waiting ≡ []
    → Appends w.before w.after total
wrote_all w waiting total has none = grind (arith, append-nil)
