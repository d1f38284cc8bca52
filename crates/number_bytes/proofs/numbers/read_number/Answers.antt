use Rattle.std.proofs.Common.{◌≡◌, ◌+◌, ◌^◌, ◌≤◌, length, take, refl, ap, ◌∙◌, arith, take_all, rules}
use Rattle.number_bytes.specs.BigEndian.{big_endian, from_big_endian, Octets}
use Rattle.number_bytes.proofs.BigEndian.{from_big_endian_take_le, eight_bytes_fit, written_read}
use Rattle.std.proofs.lemmas.Int.Digits.{number_more}
use Rattle.number_bytes.proofs.numbers.read_number.Goals as goal

pub returns-in_err-n : goal.returns-in_err-n
returns-in_err-n c =
    let l = c.args.bytes.now in
    let i = c.loop-byte.byte-index in
    let octets : Octets l = λ i. omega (arith, c.type_inv.bytes i) in
    let large : 2 ^ 64 ≤ from_big_endian l = omega (arith, c.in_err-n.ensures, c.loop-byte.invariant.0, number_more 256 l i (omega arith), from_big_endian_take_le (i + 1) l) in
    let fits = eight_bytes_fit l octets in
    search rules

pub loop-byte-preserved : goal.loop-byte-preserved
loop-byte-preserved c =
    let fits = c.in_ok-n.ensures in
    let n : c.in_ok-n.field-0 + c.from.result ≡ from_big_endian (take (c.loop-byte.byte-index + 1) c.args.bytes.now) = omega (arith, fits.1, number_more 256 c.args.bytes.now c.loop-byte.byte-index (omega arith), c.loop-byte.invariant.0) in
    (n, omega (arith, fits.0, fits.1, c.type_inv.bytes c.loop-byte.byte-index))

pub returns : goal.returns
returns c =
    let l = c.args.bytes.now in
    let whole : c.loop-byte.n ≡ from_big_endian l = c.loop-byte.invariant.0 ∙ ap from_big_endian (take_all c.loop-byte.byte-index l (omega arith)) in
    let octets : Octets l = λ i. omega (arith, c.type_inv.bytes i) in
    let back : big_endian (length l) c.loop-byte.n ≡ l = ap (big_endian (length l)) whole ∙ written_read (length l) l refl octets in
    search rules
