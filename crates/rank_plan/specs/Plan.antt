-- The plan of syr2k and of her2k.
use Rattle.view.specs.declared.View.{View}
use Rattle.view.specs.declared.Trans.{Trans}
use Rattle.view.specs.declared.UpLo.{UpLo}
use Rattle.view.specs.Place.{op_view_of, is_conj}
use Rattle.view.specs.Checks.{op_cols}
use Rattle.blas.specs.Syrk.{syrk_left, syrk_right}
use Rattle.blas.specs.Herk.{herk_left, herk_right}
use Rattle.rank_plan.specs.declared.plan.Readings.{Readings}
use Rattle.rank_plan.specs.declared.plan.Plan.{Plan}

abbrev pub syr_readings : Trans → Readings
syr_readings t = record { left = syrk_left t; right = syrk_right t }

abbrev pub her_readings : Trans → Readings
her_readings t = record { left = herk_left t; right = herk_right t }

abbrev pub paired_plan : UpLo → Trans → Readings → View → View → View → Plan
paired_plan uplo t r a b c =
    record {
      uplo = uplo;
      left_a = op_view_of r.left a;
      right_b = op_view_of r.right b;
      left_b = op_view_of r.left b;
      right_a = op_view_of r.right a;
      left_conj = is_conj r.left;
      right_conj = is_conj r.right;
      terms = op_cols t a;
      target = c;
    }

abbrev pub syr2k_plan : UpLo → Trans → View → View → View → Plan
syr2k_plan uplo t a b c = paired_plan uplo t (syr_readings t) a b c

abbrev pub her2k_plan : UpLo → Trans → View → View → View → Plan
her2k_plan uplo t a b c = paired_plan uplo t (her_readings t) a b c
