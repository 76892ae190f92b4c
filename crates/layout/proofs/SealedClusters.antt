-- Sealed clusters.
use Rattle.layout.proofs.Names.{ℕ, List, length, take, drop, ap, sym, arith, drop_at, drop-take, length-append, length-take-le, take_at, take-replicate}
use Rattle.layout.proofs.Names.{take-take, zeros, IsSealed, body_of, IsCluster}
use Rattle.std.proofs.Common.{◌≡◌, ◌+◌, ◌-◌, ◌*◌, ◌≤◌, ◌++◌, ◌∙◌}
use Rattle.layout.proofs.Numbers.{length-zeros}

zeros_front : (m n : ℕ) → m ≤ n → take m (zeros n) ≡ zeros m
unfolding zeros
zeros_front m n le = take-replicate m n 0 le

-- zeros are put after the frames, and a seal over the end
module _ (old blanked new : List ℕ) (nodes : ℕ) (few : nodes ≤ 5) (size : length old ≡ 4096) (size' : length new ≡ length blanked)
    (is : blanked ≡ take (800 * nodes) old ++ zeros (length old - 800 * nodes)) (same : body_of new ≡ body_of blanked) where
  abbrev end : ℕ
  end = 800 * nodes

  front : length (take end old) ≡ end
  front = length-take-le end old (omega (arith, few, size))

  pub long : length new ≡ 4096
  long =
      let all = length-append (take end old) (zeros (length old - end)) in
      size' ∙ ap length is ∙ all ∙ omega (arith, front, length-zeros (length old - end), size, few)

  before_seal : take 4072 new ≡ take 4072 blanked
  before_seal = ap (λ (n : ℕ). take (n - 24) new) (sym long) ∙ same ∙ ap (λ (n : ℕ). take (n - 24) blanked) (sym size' ∙ long)

  pub front_stays : take end new ≡ take end old
  front_stays =
      sym (take-take end 4072 new (omega (arith, few))) ∙ ap (take end) before_seal ∙ take-take end 4072 blanked (omega (arith, few))
      ∙ ap (take end) is ∙
      take_at (take end old) (zeros (length old - end)) end front

  pub cluster_sealed : IsSealed new → IsCluster nodes new
  cluster_sealed sealed = record {
    seal = sealed;
    blank =
        let sum : end + (4072 - end) ≡ 4072 = omega (arith, few) in
        sym (drop-take end (4072 - end) new) ∙ ap (λ (n : ℕ). drop end (take n new)) sum ∙ ap (drop end) before_seal ∙
        ap (λ (n : ℕ). drop end (take n blanked)) (sym sum) ∙ drop-take end (4072 - end) blanked ∙
        ap (take (4072 - end)) (ap (drop end) is ∙ drop_at (take end old) (zeros (length old - end)) end front) ∙
        zeros_front (4072 - end) (length old - end) (omega (arith, size));
  }
