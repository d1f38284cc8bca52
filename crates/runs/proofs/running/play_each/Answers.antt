use Rattle.std.proofs.Common.{◌≡◌, ◌+◌, ◌<◌, [], ◌∷◌, ◌++◌, length, get_or, take, drop, set, sym, ap, ◌∙◌, append_assoc, append-nil, arith, drop-set-lt}
use Rattle.std.proofs.lemmas.List.{at_drop_more, at_drop_all, take_more_set, take-append-drop, drop-drop}
use Rattle.runs.specs.Runs.{run, told, step, said}
use Rattle.runs.proofs.running.play_each.Goals as goal

pub loop-i-preserved : goal.loop-i-preserved
loop-i-preserved g c =
    let j = g.V.Joining.joined in
    let κ = g.K.KeyKind in
    let xs = c.args.calls.now in
    let x = c.index-calls-i.result in
    let i = c.loop-i.i in
    let old = c.loop-i.answers in
    let a = c.play.result in
    let st = c.store.ensures.stored in
    let rest = drop (i + 1) xs in
    let lt : i < length old = omega (arith, c.loop-i.invariant.2) in
    let d : drop (i + 1) (set old i a) ≡ drop (i + 1) old = drop-set-lt (i + 1) old i a (omega arith) in
    let e : drop (i + 1) old ≡ drop (i + 1) c.args.answers.now =
    sym (drop-drop 1 i old) ∙ (ap (drop 1) c.loop-i.invariant.1 ∙ drop-drop 1 i c.args.answers.now) in (
      (λ m h.
          let was = c.loop-i.invariant.0 m h in
          let n = was.0 in
          let t = c.play.ensures.answers_and_leaves_as_the_machine n was.1 in
          let t0 = t.0 in
          let w2 = was.2 in
          let w3 = was.3 in
          let r : run κ n (drop i xs) ≡ run κ (step κ n (get_or xs i x)) rest = at_drop_more (run κ n) xs i x c.loop-i-test.true in
          let s : told κ j n (drop i xs) ≡ said κ j n (get_or xs i x) ∷ told κ j (step κ n (get_or xs i x)) rest =
          at_drop_more (told κ j n) xs i x c.loop-i-test.true in
          let k : take (i + 1) (set old i a) ≡ take i old ++ (a ∷ []) = take_more_set old i a lt in
          let o : (take i old ++ (a ∷ [])) ++ told κ j (step κ n x) rest ≡ take i old ++ (a ∷ told κ j (step κ n x) rest) =
          append_assoc (take i old) (a ∷ []) (told κ j (step κ n x) rest) in
          (step κ n x, t.1, cc, cc)),
      cc,
      c.loop-i.invariant.2,
    )

pub returns : goal.returns
returns g c = record {
  as_the_machine = λ m h.
      let j = g.V.Joining.joined in
      let κ = g.K.KeyKind in
      let xs = c.args.calls.now in
      let i = c.loop-i.i in
      let b = c.loop-i.answers in
      let was = c.loop-i.invariant.0 m h in
      let n = was.0 in
      let w1 = was.1 in
      let w2 = was.2 in
      let w3 = was.3 in
      let w4 = c.loop-i.invariant.1 in
      let q : i ≡ length xs = omega arith in
      let r : run κ n (drop i xs) ≡ n = at_drop_all (run κ n) xs i c.loop-i-test.false in
      let s : told κ j n (drop i xs) ≡ [] = at_drop_all (told κ j n) xs i c.loop-i-test.false in
      let a : take i b ++ drop i b ≡ b = take-append-drop i b in
      let z : take i b ++ [] ≡ take i b = append-nil (take i b) in
      let rn : n ≡ run κ m xs = cc in
      (cc, rw rn at w1);
}
