use Rattle.std.proofs.Common.{sym, ap, ◌∙◌}
use Rattle.number_bytes.specs.BigEndian.{big_endian, from_big_endian}
use Rattle.number_bytes.proofs.ClosedForms.{from_four, written_four}
use Rattle.number_bytes.proofs.Listing.{listing_all}
use Rattle.number_bytes.proofs.fixed.U32FixedWidth4.from_array.Goals as goal

pub returns : goal.returns
returns c =
    let l = c.args.bytes.now in
    let all = listing_all 4 l c.told-bytes in
    record {
      reads_them = (
        c.told-bytes,
        c.from_be_bytes.ensures ∙ sym (from_four l 0) ∙ ap from_big_endian all,
        ap (big_endian 4) c.from_be_bytes.ensures ∙ written_four l 0 c.fits-bytes ∙ all,
      );
    }
