use Rattle.std.proofs.Common.{arith, ◌≡◌, IfOk, Ok, Result, codes, subst}
use Rattle.clap.specs.Words.{App, Shape, app_of, with_subcommand}
use Rattle.rds_cli.specs.CommandLine.{audit_app, decode_app, log_readers_app, sim_app, slots_app, station_app}
use Rattle.rds_cli.specs.CommandLine.{with_decode_app, without_sim_app, witness_app}
use Rattle.rds_cli.proofs.command_line.whole.Goals as goal

-- a command that has one subcommand more than the one that was known
one_more : {X E : Type 0} (view : X → App) (r : Result X E) (m c : X) (before : App) (sub : Shape)
    → r ≡ Ok m → IfOk r (λ x. view x ≡ with_subcommand (view c) sub) → view c ≡ before
    → view m ≡ with_subcommand before sub
one_more view r m c before sub was holds is = grind (arith)

pub returns : goal.returns
unfolding log_readers_app
returns c =
    let decoder : app_of c.in_ok-with_decode.with_decode ≡ with_decode_app =
    one_more app_of _ _ _ _ _ c.in_ok-with_decode.was
    (c.with.ensures (decode_app (codes "decode")) c.decode.ensures.app c.decode.ensures.local) c.top.ensures in
    let audited : app_of c.in_ok-with_audit.with_audit
    ≡ with_subcommand with_decode_app (audit_app (codes "audit")).top =
    one_more app_of _ _ _ _ _ c.in_ok-with_audit.was
    (c.with-2.ensures (audit_app (codes "audit")) c.audit.ensures.app c.audit.ensures.local) decoder in
    let witnessed : app_of c.in_ok-with_witness.with_witness ≡ with_subcommand (with_subcommand with_decode_app
    (audit_app (codes "audit")).top) (witness_app (codes "witness")).top =
    one_more app_of _ _ _ _ _ c.in_ok-with_witness.was
    (c.with-3.ensures (witness_app (codes "witness")) c.witness.ensures.app c.witness.ensures.local) audited in
    let log_readers : app_of c.in_ok-with_slots.with_slots ≡ log_readers_app =
    one_more app_of _ _ _ _ _ c.in_ok-with_slots.was
    (c.with-4.ensures (slots_app (codes "slots")) c.slots.ensures.app c.slots.ensures.local) witnessed in
    let without_sim : app_of c.in_ok-with_encode.with_encode ≡ without_sim_app =
    one_more app_of _ _ _ _ _ c.in_ok-with_encode.was
    (c.with-5.ensures (station_app (codes "encode")) c.encode.ensures.app c.encode.ensures.local) log_readers in
    record {
      app = subst (λ a. IfOk c.with-6.result (λ m. app_of m ≡ with_subcommand a (sim_app (codes "sim")).top))
          without_sim
          (c.with-6.ensures (sim_app (codes "sim")) c.simulate.ensures.app c.simulate.ensures.local);
    }
