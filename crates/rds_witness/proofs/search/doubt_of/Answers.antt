use Rattle.rds_witness.proofs.search.doubt_of.Goals as goal

pub returns : goal.returns
returns c none t n log stands seen losing hearing =
    let heard = c.as_slice.ensures.value in
    let lost = c.as_slice-2.ensures.value in (
      rw lost at (c.first_doubt-2.ensures none t n log (rw lost stands.losing_at) seen (rw lost losing)),
      rw heard at (c.first_doubt.ensures c.in_default.is t n log (rw heard stands.hearing_at)
          seen (rw heard hearing)),
    )
