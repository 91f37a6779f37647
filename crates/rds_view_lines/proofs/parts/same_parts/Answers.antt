use Rattle.rds_view_lines.proofs.parts.same_parts.Goals as goal

pub returns : goal.returns
returns c = λ i. record {
  text = c.is_same.ensures i;
  name = c.is_same-2.ensures i;
  one = c.is_same-3.ensures i;
  two = c.is_same-4.ensures i;
}
