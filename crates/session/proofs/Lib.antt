mod Zeros
