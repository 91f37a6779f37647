-- From what the words were read as to what the words say.
use Rattle.std.proofs.Common.{◌≡◌, ◌∙◌, ◌⊎◌, ℕ, [], Bool, List, Option, Some, None, Ok, Err, ap, false, true, inl, inr}
use Rattle.std.proofs.Common.{refl, subst, sym, Result}
use Rattle.clap.specs.Words.{fault_of, kind_of}
use Rattle.clap.specs.declared.error.Error.{Error}
use Rattle.clap.specs.declared.error.kind.ErrorKind.{ErrorKind}
use Rattle.clap.specs.declared.error.kind.ErrorKind.TheVariants.{DisplayHelp, DisplayVersion, OutOfMemory}
use Rattle.rds_io.specs.Told.{Traffic}
use Rattle.rds_cli.specs.Asks.{ReadAs, asked_by}
use Rattle.rds_cli.specs.CommandLine.{AreAnswered, Requested, IsPi, is_shown, whole_app}
use Rattle.rds_cli.specs.declared.request.Request.{Request}
use Rattle.rds_cli.specs.declared.request.Task.{Task}
use Rattle.rds_program.specs.Run.{Listening, NoMemory, RefusesPi, RunsRead, RunsWords, TellsError, listening, status_of}

-- ---- the status of an answer of `clap`

shown_status : (kind : ErrorKind) → is_shown kind ≡ true → status_of kind ≡ 0
shown_status DisplayHelp shown = refl
shown_status DisplayVersion shown = refl
shown_status _ shown = absurd (let bad : false ≡ true = shown in cc)

refused_status : (kind : ErrorKind) (w : Traffic) (status : ℕ) → TellsError kind w status → is_shown kind ≡ false
    → NoMemory w status ⊎ (status ≡ 2)
refused_status OutOfMemory w status tells unshown = inl
    (record { status_is = tells.status_is; told = tells.no_memory refl })
refused_status DisplayHelp w status tells unshown = absurd (let bad : true ≡ false = unshown in cc)
refused_status DisplayVersion w status tells unshown = absurd (let bad : true ≡ false = unshown in cc)
refused_status _ w status tells unshown = inr tells.status_is

either_status : (kind : ErrorKind) (w : Traffic) (status : ℕ) → TellsError kind w status
    → NoMemory w status ⊎ ((status ≡ 0) ⊎ (status ≡ 2))
either_status OutOfMemory w status tells = inl (record { status_is = tells.status_is; told = tells.no_memory refl })
either_status DisplayHelp w status tells = inr (inl tells.status_is)
either_status DisplayVersion w status tells = inr (inl tells.status_is)
either_status _ w status tells = inr (inr tells.status_is)

no_memory : (kind : ErrorKind) (w : Traffic) (status : ℕ) → TellsError kind w status → kind ≡ OutOfMemory
    → NoMemory w status
no_memory kind w status tells memory = record {
  status_is = tells.status_is ∙ ap status_of memory;
  told = tells.no_memory memory;
}

-- ---- what the words say

-- words that were read well have no answer of `clap`
none_answered : (test : ErrorKind → Bool) (words : List (List ℕ)) → fault_of whole_app words ≡ []
    → AreAnswered test words → ⊥
none_answered test words none answered = let bad : false ≡ true = rw none at answered in cc

one_asked : {x y : Requested} → Some x ≡ Some y → x ≡ y
one_asked e = cc

-- what a run promises for the request that was read, it promises for the arguments
pub by_words : (words : List (List ℕ)) (read : Result (Option Request) Error) (Engine : Task → List ℕ → Listening
    → Type 0) (Rests : Type 0) (w : Traffic) (status : ℕ)
    → ReadAs words read → RunsRead read Engine Rests w status → RunsWords words Engine Rests w status
by_words words (Ok (Some request)) Engine Rests w status known ran = record {
  runs = λ asked pi given is.
      let same : asked_by request ≡ asked = one_asked (known.ok ∙ given.ask) in
      inr (subst (λ (a : Requested). Engine a.task a.lose (listening a.rtplus pi a.dwell)) same
      (ran.runs pi (subst (λ (a : Requested). IsPi a.pi pi) (sym same) is)));
  fault_pi = λ asked given none.
      let same : asked_by request ≡ asked = one_asked (known.ok ∙ given.ask) in
      let (refused, rests) = ran.fault_pi (subst (λ (a : Requested). (pi : ℕ) → IsPi a.pi pi → ⊥) (sym same) none) in
      (inr (subst (λ (a : Requested). RefusesPi a.task w status) same refused), rests);
  nothing_asked = λ takes none. absurd (let bad : Some (asked_by request) ≡ None = known.ok ∙ none in cc);
  help = λ asks. absurd (none_answered is_shown words known.kinds asks);
  refused = λ refused. absurd (none_answered _ words known.kinds refused);
  not_taken = λ untaken. absurd (untaken known.taken);
}
by_words words (Ok None) Engine Rests w status known ran = record {
  runs = λ asked pi given is. absurd (let bad : None ≡ Some asked = known.ok ∙ given.ask in cc);
  fault_pi = λ asked given none. absurd (let bad : None ≡ Some asked = known.ok ∙ given.ask in cc);
  nothing_asked = λ takes none. (inr (ran.0, ran.1), ran.2);
  help = λ asks. absurd (none_answered is_shown words known.kinds asks);
  refused = λ refused. absurd (none_answered _ words known.kinds refused);
  not_taken = λ untaken. absurd (untaken known.taken);
}
by_words words (Err error) Engine Rests w status known ran = record {
  runs = λ asked pi given is. inl (no_memory (kind_of error) w status ran.0 (known.err given.taken), ran.1);
  fault_pi = λ asked given none. (inl (no_memory (kind_of error) w status ran.0 (known.err given.taken)), ran.1);
  nothing_asked = λ takes none. (inl (no_memory (kind_of error) w status ran.0 (known.err takes)), ran.1);
  help = λ asks. (
    elim (known.help asks) [
      | inl memory ↦ inl (no_memory (kind_of error) w status ran.0 memory)
      | inr shown ↦ inr (ran.0.status_is ∙ shown_status (kind_of error) shown)
    ],
    ran.1,
  );
  refused = λ refused. (
    elim (known.refused refused) [
      | inl memory ↦ inl (no_memory (kind_of error) w status ran.0 memory)
      | inr unshown ↦ refused_status (kind_of error) w status ran.0 unshown
    ],
    ran.1,
  );
  not_taken = λ untaken. (either_status (kind_of error) w status ran.0, ran.1);
}
