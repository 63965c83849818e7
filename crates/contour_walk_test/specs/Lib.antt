pub mod ScatteredHoles
