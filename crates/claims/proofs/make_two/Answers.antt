use Rattle.integers.specs.LittleEndian.{Bytes}
use Rattle.making_rules.proofs.Proofs.{demand_2_of, demand_3_of}
use Rattle.claims.proofs.make_two.Goals as goal

pub returns : goal.returns
returns c =
    let s = c.args.first.now in
    let t = c.args.second.now in
    let chart₁ = c.args.first_chart.now in
    let list₁ = c.args.first_list.now in
    let chart₂ = c.args.second_chart.now in
    let list₂ = c.args.second_list.now in
    let B : Bytes s = λ i. (c.type_inv.first i).fits in
    let D : Bytes t = λ i. (c.type_inv.second i).fits in
    record {
      demand3 = demand_3_of s t chart₁ list₁ chart₂ list₂ B D c.make.ensures.value c.make-2.ensures.value c.make.ensures.chart_after c.make-2.ensures.chart_after;
      demand2 = demand_2_of s chart₁ list₁ B c.make.ensures.value c.make.ensures.chart_after c.make.ensures.list_after;
      demand2_2 = demand_2_of t chart₂ list₂ D c.make-2.ensures.value c.make-2.ensures.chart_after c.make-2.ensures.list_after;
      first_value = c.make.ensures.value;
      first_chart_after = c.make.ensures.chart_after;
      first_list_after = c.make.ensures.list_after;
      second_value = c.make-2.ensures.value;
      second_chart_after = c.make-2.ensures.chart_after;
      second_list_after = c.make-2.ensures.list_after;
    }
